pub mod Moss
pub mod Draining
pub mod Through
