pub mod Nths
