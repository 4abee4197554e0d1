mod SampleDesign
