mod Cuts
mod Numbers
