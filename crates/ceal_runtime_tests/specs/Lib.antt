-- what its own functions say of each other
pub mod Twos
