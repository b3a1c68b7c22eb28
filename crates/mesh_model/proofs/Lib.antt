-- That the walk round the vertices finds what the definition finds. It stands here, where an edit of the walk is refused by it.
pub mod RingWalk
