-- Why a list that fits is not refused, in the words of what the closures answered, and what the rates of a few flows
-- are whole over.
pub mod AnswersTooLarge
pub mod Promise
