pub mod Bookmark
