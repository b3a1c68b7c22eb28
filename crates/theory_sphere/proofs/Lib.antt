-- What followed from C-12, C-15 and C-20 for the calls as they stood before. The theorems stand here, where an edit of what they speak of is refused by them.
pub mod AsBefore
pub mod ScratchLength
pub mod FirstIsOuter
