pub mod Going
pub mod Getting
