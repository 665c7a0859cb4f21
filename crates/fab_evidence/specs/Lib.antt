-- what names stand for
pub mod Named
-- what lines of events tell, and with which marks
pub mod Marks
-- the same, told line by line from the last
pub mod Telling
-- where the report begins in a text
pub mod Parts
-- the text of an audit, and where a text stops being one
pub mod Texts
-- reading it from left to right
pub mod Reading
-- the first line that isn't so
pub mod First
