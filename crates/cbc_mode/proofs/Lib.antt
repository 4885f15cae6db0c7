mod Xor
mod Chains
mod Pads
mod Parts
mod Pieces
