pub mod CallsPassed
pub mod Each
mod EventWords
mod FormPairs
pub mod Json
pub mod KnownNames
pub mod LineLaw
pub mod LineLoop
pub mod LinesRead
pub mod LinesSpelled
mod PlainNumbers
mod PlainRuns
mod PlainTokens
pub mod PlanItems
pub mod ScriptLists
mod SpelledParts
pub mod TextLists
pub mod TokensRead
pub mod UsualForm
pub mod WholeNumber
mod WordsCut
pub mod WordsSpelled
