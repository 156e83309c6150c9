pub mod LoadAnswers
