pub mod HeadFaults
