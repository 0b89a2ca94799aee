pub mod EndFrame
pub mod PairLaws
pub mod RegionFrames
