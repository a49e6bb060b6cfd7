pub mod Field
pub mod Rules
