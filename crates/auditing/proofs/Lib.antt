pub mod Fillings
pub mod Breaks
pub mod Rulings
pub mod Answering
