mod Examples
pub mod Added
pub mod Cutting
pub mod DeclarationsAgain
pub mod ExpressionsAgain
pub mod Forms
pub mod Inks
pub mod ListsAgain
pub mod Pieces
pub mod ProgramsAgain
pub mod RunsAgain
pub mod StatementsAgain
pub mod Stated
