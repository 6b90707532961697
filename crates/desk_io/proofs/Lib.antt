mod OutputLists
mod WholeFiles
