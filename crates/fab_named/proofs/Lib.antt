-- the tokens of a text are well formed
pub mod Words
-- what holds of each token holds of those that are left
pub mod Kept
-- so names are words, and posts are bytes
pub mod Named
-- workers and stores are numbered in order
pub mod Numbered
-- posts, crashes and events are of workers and stores
pub mod Posts
