-- The lemmas of the crate course_text. Those of a module of src/ stand in the folder of its name.
pub mod NumbersTogether
pub mod CourseGrammar
pub mod SaidCourses
