-- Laws of records along chains.
--     Taking     records are taken in, one after the other, along the chains of the changed nodes
pub mod Taking
