pub mod Tally
