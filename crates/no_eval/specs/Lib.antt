pub mod Numbers
pub mod Binary
pub mod Compare
pub mod Cast
