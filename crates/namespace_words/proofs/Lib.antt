pub mod HeldArenas
pub mod HeldBytes
pub mod HeldCells
pub mod LoadedArenas
pub mod WordRows
pub mod MadeMoves
pub mod UncutArenas
