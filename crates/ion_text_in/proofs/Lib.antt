mod Growing
mod Steps
mod Shrinking
mod Falling
pub mod Sound
mod TokenLimits
mod Tokens
mod Advancing
mod ClosingUp
mod Complete
mod ReadWithin
mod TokenCuts
mod One
mod Meaning
mod FloatTexts
mod Blobs
mod Strings
mod DecodedBytes
mod DigitNumbers
mod LobBytes
mod RawTokens
mod ReadPermitted
mod ValuesWithin
mod Narrow
mod Refused
pub mod After
pub mod NumberEnds
pub mod TokenBegins
pub mod Fuel
pub mod Plain
pub mod Quotes
pub mod Hexes
pub mod Still
pub mod Looking
pub mod Holding
pub mod Taking
pub mod Gathering
mod GatherCalls
pub mod Segments
pub mod Utf8
pub mod SegmentTexts
pub mod ScannedTexts
pub mod TextTokens
pub mod Shown
pub mod BlankRuns
pub mod ShownPieces
mod ReadingText
pub mod Runs
pub mod Turns
pub mod BlankTurns
pub mod RunEnds
pub mod ShownTokens
pub mod RunTokens
pub mod Gathered
pub mod WordTokens
pub mod FirstTokens
pub mod TypedWords
pub mod ReaderSteps
pub mod ReaderAnnotations
pub mod ReaderCalls
pub mod ShownFurther
pub mod ReaderSymbols
pub mod ReaderFloats
pub mod LobTurns
mod RunCuts
mod Prepaid
mod Rows
mod FloatRows
mod QuickNumbers
mod Mantissas
mod QuickFloats
mod SpelledNumbers
mod QuotedRows
mod Lanes
mod Blocks
mod SureRuns
mod Suspects
pub mod FeedReading
pub mod FeedNames
pub mod FeedComments
pub mod FeedHeads
pub mod FeedNoted
pub mod FeedLanes
pub mod FeedItems
pub mod FeedIds
pub mod FeedReader
pub mod Declarations
mod WhiteRuns
mod Lines
mod FirmTexts
mod FirmLobs
mod FirmTokens
mod FirmSteps
mod FirmReading
mod FirmRows
mod Elsewhere
mod ElsewhereSteps
