-- Which objects an attempt makes, for whoever speaks of jobs.
pub use Rattle.fab_stack.specs.Attempts.{is_made_in}
