mod Handled
mod Kept
mod LooseParts
