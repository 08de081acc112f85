-- SaveAndLoad: a saved bench loads as itself, an accepted text saves as itself; of the definitions, and of what `save` and `load` return.
-- Contracts: what `save` and `load` ensure is what those start from.
-- ShapeCases: each clause of document 01's sentence on shapes, computed on short texts.
pub mod SaveAndLoad
pub mod Contracts
pub mod ShapeCases
-- SaidByText: what a load gives, from what was read.
-- InPlaceLaws: what is told of a lent image, written from it and loaded into it.
mod SaidByText
mod InPlaceLaws
