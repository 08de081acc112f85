-- Images: the parents and states of an image, and what a request leaves in it.
-- UniqueImages: a request on an image has one result.
pub mod Images
pub mod UniqueImages
