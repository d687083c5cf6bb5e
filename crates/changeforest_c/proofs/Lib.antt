-- The text of what is told of a row; what the exports of a tree share.
pub mod Heard
pub mod Counted
