mod Counting
pub mod Courses
