-- the run that lines tell, and how far it goes
pub mod Runs
-- when a text is right, and its first wrong line otherwise
pub mod Right
-- what is audited, and what is answered
pub mod Auditing
-- how far the events come
pub mod Steps
-- journals that are shown
pub mod Keeping
-- the reply to a text
pub mod Audits
pub mod Replying
