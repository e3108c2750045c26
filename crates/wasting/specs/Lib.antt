pub mod Wasting
