mod Counts
mod Endings
mod Prefixes
