pub mod TrueRecords
