mod Walked
mod Paid
