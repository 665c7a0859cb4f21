-- the marks that lines give to a run, and the run with them
pub mod Ruled
-- no mark is in the report
pub mod Unmarked
-- what lines tell of a run is the run with these marks
pub mod Told
-- which requests are open, and that the other outcomes stay
pub mod Open
-- so the report is right
pub mod Right
