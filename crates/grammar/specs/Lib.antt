pub mod Syntax
pub mod Grammar
pub mod Storing
pub mod Recovering
pub mod Closing
pub mod Sentences
