pub mod CommandLines
pub mod CommandNames
pub mod ReadTasks
pub mod Parts
pub mod PieceWords
pub mod PlainWords
pub mod OptionWords
pub mod SecondWords
