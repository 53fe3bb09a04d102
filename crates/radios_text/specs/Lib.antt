pub mod RadiosText
