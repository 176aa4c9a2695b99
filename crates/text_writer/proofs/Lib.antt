pub mod Digits
pub mod Laying
pub mod Back
pub mod Telling
