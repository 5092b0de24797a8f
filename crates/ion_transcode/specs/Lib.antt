-- In the order of reading. What `run` promises: how bytes are read, what is written of values, which form a stream has, its verdict,
-- and what may be held.
pub mod Encoding
pub mod Outputs
pub mod Forms
pub mod Verdict
pub mod Bound
-- What is proved of that, and what the calls below `run` say to each other.
pub mod ByItem
pub mod Catalogues
pub mod Laws
pub mod UserPaths
pub mod RoundTrip
pub mod Acceptance
pub mod AcceptedTrees
pub mod Depth
pub mod WrittenAgain
pub mod ShownAgain
pub mod InParts
pub mod PartCalls
pub mod Calls
