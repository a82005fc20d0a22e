-- The laws of the decision, beside the proofs of its functions.
pub mod Choices
pub mod LensLaws
pub mod RulesLaws
pub mod FetchLaws
pub mod TableLaws
pub mod ReadingLaws
pub mod PassingLaws
pub mod SettlingLaws
pub mod WritingLaws
pub mod QuestionLaws
pub mod Replies
pub mod Refusals
pub mod AskLaws
pub mod Unique
pub mod Bounds
