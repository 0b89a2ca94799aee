pub mod Cuts
pub mod Filled
pub mod Grounds
pub mod Halves
pub mod Homes
pub mod Values
