pub mod Keys
pub mod FirstPast
pub mod SortedKeys
pub mod Contents
pub mod FirstNamed
pub mod Lending
