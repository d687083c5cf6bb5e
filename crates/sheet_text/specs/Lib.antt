-- The definitions that the contracts of `sheet_text` cite.
pub mod Lines
