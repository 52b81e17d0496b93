-- The lemmas of the crate writing. Those of a module of src/ stand in the folder of its name.
pub mod TableRows
