pub mod Numbers
pub mod Words
pub mod Means
pub mod Grammar
pub mod Header
pub mod Replies
pub mod Lines
pub mod Written
