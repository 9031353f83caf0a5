-- General lemmas on lists: elements, places, filters, sums, order by keys.
pub mod AllPairs
pub mod Booleans
pub mod Copied
pub mod Different
pub mod Each
pub mod Filters
pub mod InPlace
pub mod Members
pub mod Places
pub mod Sorted
pub mod SumOrder
pub mod Sums
pub mod Zips
