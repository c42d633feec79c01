-- What serves contracts of private functions alone.
pub mod StoreGrowth
pub mod DatagramGrowth
pub mod ListPushes
pub mod StoreLists
pub mod PartialReading
