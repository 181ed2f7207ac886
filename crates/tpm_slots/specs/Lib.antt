pub mod SlotRecord
