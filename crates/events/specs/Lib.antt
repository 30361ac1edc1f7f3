-- What the contracts of `events` cite; the walk by which a format reads its file, and the trace by which it says what follows its rules.
pub mod Sizes
pub mod Events
pub mod Walk
pub mod Trace
pub mod Lists
