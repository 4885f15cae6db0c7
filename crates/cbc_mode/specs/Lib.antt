pub mod Cbc
pub mod Chaining
pub mod Padding
pub mod WholeBlocks
