pub mod Shelves
