-- The lemmas of the crate forward. Those of a module of src/ stand in the folder of its name.
pub mod PassedCourse
