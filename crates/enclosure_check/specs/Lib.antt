-- A stranger reads Certificates, Vectors, Answers, Inputs, Steps, EnclosureErrors and Enclosures, and CertificateLists for the calls in
-- parts. Rows, Defects, ErrorParts and VectorParts serve private functions alone.
pub mod Certificates
pub mod Answers
pub mod Vectors
pub mod ErrorParts
pub mod VectorParts
pub mod Defects
pub mod Inputs
pub mod CertificateLists
pub mod EnclosureErrors
pub mod Rows
pub mod Enclosures
pub mod Steps
