mod Lines
mod MatrixLines
mod ParameterLines
mod Printable
mod Tiny
