-- Laws about the definitions of specs/, over plain values: what a load reports into buffers of the right lengths.
pub mod Numbers
